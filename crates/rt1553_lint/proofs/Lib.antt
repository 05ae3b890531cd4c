mod Columns
mod PlaceLaws
mod Told
mod Warned
