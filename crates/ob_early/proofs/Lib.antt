mod ChainLaws
mod Folds
mod Running
