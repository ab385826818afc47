mod Grouping
mod Starting
