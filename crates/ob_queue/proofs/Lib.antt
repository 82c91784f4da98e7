pub mod WalkLaws
