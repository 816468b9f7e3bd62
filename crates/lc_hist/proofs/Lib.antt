mod JsonLexed
mod JsonLists
mod JsonRows
mod JsonTokens
mod JsonWhole
mod JsonEvents
mod NamesApart
mod JsonWriting
mod JsonFound
mod JsonFits
mod JsonMembers
mod JsonParts
mod JsonRead
mod JsonAlways
mod JsonAnswers
pub mod JsonOnce
