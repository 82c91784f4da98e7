pub mod TypeNames
