pub mod Answer
pub mod private
