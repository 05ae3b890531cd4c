pub mod Heading
pub mod Stated
pub mod Possible
pub mod Verify
pub mod Commands
pub mod Reader
pub mod Differing
pub mod inner
