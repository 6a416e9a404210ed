-- What the contracts of `scope`'s own functions go by, beside the definitions.
pub mod Words  -- the place of a pixel's word
pub mod RefusalRows  -- a refusal's clash beside its number and place
