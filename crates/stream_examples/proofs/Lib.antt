pub mod BlackExamples
pub mod ExtraExamples
pub mod RefusalExamples
pub mod CheckExamples
pub mod MotionExamples
pub mod SegmentExamples
pub mod ChoiceExamples
