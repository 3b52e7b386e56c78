mod Vocabulary
pub mod Turns
pub mod Orders
pub mod Below
pub mod Spanned
pub mod Joins
pub mod Gains
pub mod Peaks
pub mod Given
pub mod Followings
pub mod Trails
pub mod Reduced
pub mod OwnItems
pub mod Rising
pub mod Grouped
pub mod Lowest
