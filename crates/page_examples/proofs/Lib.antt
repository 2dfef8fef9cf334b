mod Closing
mod Noted
