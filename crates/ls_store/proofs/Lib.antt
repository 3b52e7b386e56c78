mod Vocabulary
pub mod CaseParts
pub mod OwnSettings
pub mod PupilLists
pub mod PupilNames
pub mod PupilParts
pub mod PupilStates
pub mod Putting
pub mod Standings
pub mod Going
pub mod WrittenCases
