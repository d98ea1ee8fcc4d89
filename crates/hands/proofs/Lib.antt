mod Kept
mod Within
