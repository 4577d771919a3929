pub mod Answer
pub mod Image
pub mod Known
pub mod Messages
pub mod Written
