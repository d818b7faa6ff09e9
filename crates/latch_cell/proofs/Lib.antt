mod CopyWords
mod Latching
mod LatchReads
mod LatchWrites
mod LatchSeats
mod Reading
mod LatchTruth
