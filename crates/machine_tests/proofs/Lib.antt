pub mod RoomyPlaces
