pub mod Telling
pub mod Judged
pub mod Saying
pub mod Wholes
pub mod ReadNodes
pub mod Keys
pub mod Stepped
pub mod StepNodes
