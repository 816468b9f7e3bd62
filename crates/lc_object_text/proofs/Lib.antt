mod SectionWalk
mod Placed
pub mod PlacedRows
mod Ends
mod PointWalk
pub mod Distinct
pub mod Holding
pub mod CodeHolds
pub mod BodyHolds
pub mod SignatureHolds
pub mod ArrayHolds
pub mod BodiesHold
mod ObjectChecks
pub mod ObjectHolds
mod PartsInRow
mod FileAnswers
pub mod MadeParts
