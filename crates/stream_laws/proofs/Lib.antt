pub mod OldTree
pub mod OldRows
pub mod OldPictures
pub mod OldStreams
pub mod StreamForm
pub mod Behind
pub mod PlainStreams
