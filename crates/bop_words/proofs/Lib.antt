pub mod CommandRequests
pub mod OptionTableLemmas
pub mod ReadOptionsLemmas
pub mod UpdatedOptions
pub mod WordRequestsLemmas
pub mod FirstWord
pub mod RequestBoundsLemmas
