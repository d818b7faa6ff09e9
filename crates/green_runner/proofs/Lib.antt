mod Turning
mod Passes
mod SharedOut
