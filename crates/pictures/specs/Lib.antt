-- What the calls on a picture share.
pub mod Places  -- where a word or a bank stands
pub mod Fetching  -- what the code of both fetches goes by
pub mod Lists  -- a list of calls in numbers
pub mod SumsExample  -- the claim on its sums read off in a small picture
pub mod ListNumbers  -- every list of calls has numbers
