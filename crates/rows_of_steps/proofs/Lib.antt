pub mod ThreeLists
