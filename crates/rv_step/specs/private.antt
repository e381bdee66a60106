pub mod NoteRoom
