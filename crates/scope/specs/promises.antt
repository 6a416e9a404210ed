-- What is promised of the definitions, in the order to read it.
pub mod Meaning  -- lists and tests in plain numbers; a legal call is never refused
pub mod Demand  -- demand 3: a list of calls and the claim over it
pub mod SumPromises  -- document 02, Card 6: the sums of the banks over a list of calls
pub mod CyclePromises  -- document 02, Card 4: plans for r cycles, the least of them, cycles, the longer clash
pub mod PlanPromises  -- normal form, finder and check
pub mod PicturePromises  -- banks, addresses and the calls on a picture
pub mod BookPromises  -- reading, writing, parts, the program's text
pub mod RefusalPromises  -- which number a call gives, and its place
pub mod OneCyclePromises  -- r = 1: the calls as they were, and what was promised of them
pub mod Promises  -- all of them in one record
