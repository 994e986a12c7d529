mod Deciding
mod Digits
mod Eights
mod FirstPlace
mod Joining
mod Lacking
mod LineFeeds
mod NumberText
mod Parting
mod Results
mod Leading
pub mod Public
