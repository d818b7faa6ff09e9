pub mod TopPlaces
