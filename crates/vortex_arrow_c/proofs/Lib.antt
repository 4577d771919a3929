pub mod RangeLens
