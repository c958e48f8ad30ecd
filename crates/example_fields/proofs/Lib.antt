mod Reading
mod Visible
