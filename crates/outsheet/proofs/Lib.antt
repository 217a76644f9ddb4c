pub mod SwapLaws
pub mod SheetLaws
pub mod RoomLaws
pub mod Examples
