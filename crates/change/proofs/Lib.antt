pub mod Trees
pub mod After
pub mod Crown
pub mod Settles
pub mod Shallow
pub mod Deep
pub mod Roomy
pub mod Start
