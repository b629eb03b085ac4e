mod Lookup
mod Entries
