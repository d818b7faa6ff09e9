mod RecordedOrders
mod KeptRuns
mod NoWorkers
mod Begun
