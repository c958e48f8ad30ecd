mod Bools
mod KindReads
mod Raws
mod Told
