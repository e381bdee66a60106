pub mod BoolLemmas
pub mod NoteLemmas
pub mod NotedLemmas
pub mod PlacesLemmas
pub mod RoomLemmas
pub mod ThingLemmas
