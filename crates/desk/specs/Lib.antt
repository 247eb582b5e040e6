pub mod Bounds
pub mod Chunks
pub mod Printed
pub mod Desk
pub mod Windows
pub mod Inside
