-- Lists of pixel records.
pub mod RecordLists  -- a whole list by its records
pub mod Placing  -- one record by its pixel's address and bank
