pub mod LaneCounts
pub mod LaidObjects
pub mod Laying
pub mod OneStep
pub mod Seating
pub mod WordSizes
