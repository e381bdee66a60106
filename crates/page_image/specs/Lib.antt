pub mod OwnedBytes
pub mod PutBytes
