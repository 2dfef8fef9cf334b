mod Answering
mod FirstBytes
