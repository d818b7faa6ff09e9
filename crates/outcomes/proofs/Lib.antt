mod Whole
mod Threads
mod Found
mod Sorted
mod StopLists
