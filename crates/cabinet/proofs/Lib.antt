mod Firsts
mod Steps
mod Reading
mod Rows
mod Cycling
