-- What a plan's methods rest on.
pub mod Chains  -- chains of tests, and what a call answers by them
pub mod Ceilings  -- quotients rounded up
pub mod Naturals  -- the coordinates of a pixel inside, as the code reads them
pub mod PlanFacts  -- plan, sides and pixels in plain numbers; numbers handed to a callee
pub mod MethodAnswers  -- the first tests of a call on a picture, 11 and 12; 14 of one pixel
