mod Dividing
mod Reading
