pub mod NoteFields
pub mod NoteShared
pub mod OwnPlaces
pub mod Rows
