-- The promises kept, and demand 3 about the code.
pub mod RefusalChains  -- what a chain of tests gives, by what it begins with
pub mod CycleRefusals  -- which number a call for r gives
pub mod CallRefusals  -- which number each call gives
pub mod Kept  -- every promise in one value
pub mod Example  -- the premises of demand 3 and of Demanded are met, and what they say there
pub mod CodeLists  -- a list that the code made under the finder's plan meets demand 3
