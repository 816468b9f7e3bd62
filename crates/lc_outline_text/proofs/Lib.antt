pub mod Agreed
mod ArraysCounted
pub mod Assembled
mod BodiesCounted
mod BranchesCounted
mod CodeAlone
mod ColumnsFew
mod Counting
mod Different
mod EdgesCounted
mod FileReads
mod Fitting
mod Going
mod InstructionsCounted
pub mod LimitsHold
mod MadeBodies
mod MarksCounted
mod Needed
mod ObjectOf
mod Outlined
mod Own
mod Paths
mod PlacedReads
mod PointsCounted
mod RidersCounted
mod RidersPassed
mod RowsCounted
mod Sets
mod SidesCounted
mod SidesHold
mod StoredThere
mod SumsCounted
mod UpdatesCounted
mod Walks
pub mod WholeCounted
