-- Lemmas on the motion of cars, and worked examples.
pub mod MotionLoop
pub mod MotionOfCars
mod Examples
