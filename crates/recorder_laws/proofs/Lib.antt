pub mod PlayLaws
pub mod ScriptExamples
pub mod DeskExamples
pub mod FrameExamples
