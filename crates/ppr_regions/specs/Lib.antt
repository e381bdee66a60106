pub mod RegionRule
