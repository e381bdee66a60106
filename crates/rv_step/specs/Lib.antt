pub mod EventCalls
pub mod Footprint
pub mod InPlace
pub mod Replay
pub mod RunThings
pub mod Stepping
pub mod ValidRecord
pub mod private
