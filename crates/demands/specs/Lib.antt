pub mod Model
pub mod TopMarks
pub mod History
pub mod Demands
pub mod OnSound
pub mod Tours
