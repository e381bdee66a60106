pub mod Pause
