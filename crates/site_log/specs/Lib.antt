-- A machine that starts again, with the log of what lasted of its requests.
pub mod Sizes
pub mod Kept
pub mod Images
pub mod Files
pub mod Stood
pub mod Replays
pub mod Reads
pub mod Resumes
pub mod News
pub mod Opens
pub mod Readies
pub mod Drafts
pub mod Shorter
pub mod Firsts
