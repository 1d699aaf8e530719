pub mod Cuts
pub mod Cursors
pub mod Reading
