pub mod ErasedLayout
pub mod Extents
pub mod Fitting
pub mod Narrow
pub mod Nearness
pub mod Placing
