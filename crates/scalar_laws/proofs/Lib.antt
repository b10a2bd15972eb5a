pub mod BitPlaces
