pub mod Boards
pub mod Layouts
pub mod Uses
