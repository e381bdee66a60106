pub mod Frames
pub mod Globals
pub mod Laid
pub mod LayoutAnswers
pub mod Sizes
pub mod Slots
pub mod private
